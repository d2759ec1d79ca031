pub mod Grid
pub mod Across
pub mod Commutes
