pub mod Dead
pub mod Rest
pub mod Nodes
