pub mod Links
pub mod Clean
pub mod Net
pub mod Flat
pub mod Nets
pub mod Kept
