pub mod Course
pub mod Further
pub mod Shift
pub mod Compose
pub mod Slices
pub mod Whole
