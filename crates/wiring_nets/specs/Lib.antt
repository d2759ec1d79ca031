pub mod Told
pub mod Nets
