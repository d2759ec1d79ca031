pub mod Named
pub mod Same
pub mod Free
pub mod Nodes
