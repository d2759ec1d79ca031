pub mod Finish
pub mod Ways
