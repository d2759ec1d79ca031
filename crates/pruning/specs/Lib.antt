pub mod Kept
pub mod Ways
pub mod Exact
