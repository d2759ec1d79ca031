pub mod Graph
pub mod Ways
