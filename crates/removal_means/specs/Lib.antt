pub mod Went
pub mod Remove
pub mod Room
pub mod Kept
pub mod Edited
pub mod Finish
