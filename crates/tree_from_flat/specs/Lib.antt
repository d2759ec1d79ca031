pub mod Nets
pub mod Exact
