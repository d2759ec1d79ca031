pub mod Finishing
pub mod Ways
