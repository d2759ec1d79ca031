pub mod Slice
pub mod Slices
pub mod Stands
