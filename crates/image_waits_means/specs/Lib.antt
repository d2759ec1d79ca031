pub mod Net
pub mod Nets
pub mod Pending
pub mod Waits
