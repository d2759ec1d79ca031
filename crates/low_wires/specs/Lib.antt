pub mod Low
pub mod Zeros
