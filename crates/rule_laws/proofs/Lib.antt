pub mod Annihilate
pub mod Columns
pub mod Commute
pub mod Erase
pub mod Graft
