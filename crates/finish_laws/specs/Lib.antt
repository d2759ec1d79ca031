pub mod Firsts
pub mod Wires
pub mod Drawn
pub mod Twice
pub mod Fits
pub mod One
