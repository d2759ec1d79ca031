pub mod Run
pub mod Ways
