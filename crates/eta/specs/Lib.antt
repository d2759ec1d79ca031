pub mod Eta
pub mod Ways
