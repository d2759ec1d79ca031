pub mod Sizes
pub mod Walked
pub mod Sets
pub mod Written
