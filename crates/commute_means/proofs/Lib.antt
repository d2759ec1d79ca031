pub mod Across
pub mod Commutes
