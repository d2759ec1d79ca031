pub mod Yes
pub mod Tidy
pub mod InUse
pub mod Meets
pub mod Sizes
pub mod Head
