pub mod Waits
pub mod Ways
