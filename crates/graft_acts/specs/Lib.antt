pub mod Script
pub mod Done
pub mod Waits
pub mod Grafts
