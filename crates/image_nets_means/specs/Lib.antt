pub mod Free
pub mod Nets
