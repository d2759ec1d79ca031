pub mod Erase
pub mod Ways
