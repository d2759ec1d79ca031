pub mod Counts
pub mod Net
pub mod Nets
