pub mod Clean
pub mod Nets
