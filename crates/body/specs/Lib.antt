pub mod Nets
pub mod Body
pub mod Reached
