pub mod Slots
pub mod Ways
