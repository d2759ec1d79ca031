pub mod Marks
pub mod Along
pub mod Canonical
