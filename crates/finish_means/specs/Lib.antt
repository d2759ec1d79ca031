pub mod Delivered
pub mod Finished
