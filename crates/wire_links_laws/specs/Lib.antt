pub mod Raised
pub mod Means
pub mod Pairs
pub mod Top
