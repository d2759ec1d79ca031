pub mod Part
pub mod Erases
