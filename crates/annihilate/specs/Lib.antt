pub mod Annihilate
pub mod Ways
