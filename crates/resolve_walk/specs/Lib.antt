pub mod Penned
pub mod Walk
pub mod Ways
