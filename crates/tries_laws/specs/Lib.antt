pub mod Attempts
pub mod Order
pub mod Pairs
