pub mod Renamed
pub mod Brought
pub mod Starred
pub mod Reduced
pub mod Ruled
pub mod Eta
pub mod Leaves
