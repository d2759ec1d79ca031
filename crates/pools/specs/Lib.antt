pub mod Pools
pub mod Ways
