pub mod Embed
pub mod Ways
