pub mod Nets
pub mod Ways
