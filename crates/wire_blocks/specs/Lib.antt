pub mod Blocks
pub mod Ways
pub mod Laws
