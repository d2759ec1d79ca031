pub mod Dirty
pub mod Ways
