pub mod Commute
pub mod Ways
