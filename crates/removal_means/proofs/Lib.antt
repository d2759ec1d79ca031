pub mod Finish
pub mod Remove
