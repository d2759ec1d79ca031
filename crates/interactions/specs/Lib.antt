pub mod Interactions
pub mod Ways
