pub mod Fuel
pub mod Links
pub mod Resolve
