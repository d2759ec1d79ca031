pub mod Net
pub mod Nets
pub mod Slots
pub mod Pools
