pub mod Head
pub mod Called
pub mod Nets
