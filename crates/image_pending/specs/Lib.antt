pub mod Pending
pub mod Ways
