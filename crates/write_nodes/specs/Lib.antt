pub mod Wrote
pub mod Nodes
pub mod Ways
