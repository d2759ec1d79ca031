pub mod Steps
pub mod Annihilates
pub mod Erases
pub mod Across
pub mod Commutes
pub mod Values
pub mod Etas
