pub mod Append
pub mod Push
