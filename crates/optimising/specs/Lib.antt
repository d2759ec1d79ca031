pub mod Optimising
pub mod Ways
