pub mod Safe
pub mod Tidy
