pub mod Flat
pub mod Ways
