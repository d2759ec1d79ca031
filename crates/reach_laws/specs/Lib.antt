pub mod Marks
pub mod Closes
pub mod Tables
pub mod Finds
pub mod Onward
