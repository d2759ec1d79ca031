pub mod Words
pub mod Lists
pub mod Waits
pub mod Rules
pub mod Etas
pub mod Graft
pub mod Run
pub mod Load
