pub mod Layers
pub mod Net
pub mod Nets
pub mod File
