pub mod Walk
pub mod Kept
pub mod Fuel
pub mod Pass
pub mod Keys
pub mod Links
pub mod Sorted
pub mod Resolve
