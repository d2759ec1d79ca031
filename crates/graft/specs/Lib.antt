pub mod Graft
pub mod Ways
