pub mod Added
pub mod Load
pub mod Ways
