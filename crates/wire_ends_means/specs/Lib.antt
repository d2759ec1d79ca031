pub mod Table
pub mod Wires
pub mod Pairs
