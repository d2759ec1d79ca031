pub mod Kept
pub mod Laid
pub mod Puts
pub mod Nodes
