pub mod Plain
pub mod Renamed
pub mod Net
pub mod Ways
