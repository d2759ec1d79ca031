pub mod Places
pub mod Parts
pub mod Stands
pub mod Bounds
