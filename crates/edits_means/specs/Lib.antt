pub mod Fill
pub mod Place
pub mod Vacate
pub mod Went
