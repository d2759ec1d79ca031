pub mod Accepted
pub mod Calls
