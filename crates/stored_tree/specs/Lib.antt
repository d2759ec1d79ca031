pub mod Tree
pub mod Parts
