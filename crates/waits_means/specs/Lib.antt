pub mod Places
pub mod Append
pub mod Slots
pub mod Await
