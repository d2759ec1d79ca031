pub mod Members
pub mod Counts
pub mod Inside
pub mod Places
pub mod Net
pub mod Nets
