pub mod Finished
pub mod Optimized
pub mod Room
pub mod Whole
