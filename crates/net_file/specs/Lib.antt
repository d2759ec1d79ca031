pub mod Lists
pub mod Values
pub mod Write
pub mod Read
pub mod Checks
