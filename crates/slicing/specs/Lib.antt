pub mod Slicing
pub mod Ways
