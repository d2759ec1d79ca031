pub mod Met
pub mod Drops
pub mod Values
