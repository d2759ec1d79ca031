pub mod Lasts
pub mod Measure
pub mod Reached
