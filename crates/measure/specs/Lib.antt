pub mod Measure
pub mod Ways
