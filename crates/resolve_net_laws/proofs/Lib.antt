pub mod Net
pub mod Renamed
pub mod Spelt
pub mod Touched
