pub mod Stands
pub mod File
