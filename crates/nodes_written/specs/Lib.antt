pub mod Nodes
pub mod Entries
pub mod Lists
pub mod Whole
pub mod Written
