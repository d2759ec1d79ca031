pub mod Calls
pub mod Numbered
