pub mod Means
pub mod Frame
pub mod Names
