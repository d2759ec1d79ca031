pub mod Visits
pub mod Ways
