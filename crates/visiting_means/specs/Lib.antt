pub mod Names
pub mod Rules
pub mod Dropped
pub mod Visited
pub mod Left
pub mod Slice
