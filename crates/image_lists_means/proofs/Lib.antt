pub mod Nets
pub mod Pools
