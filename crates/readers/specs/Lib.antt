pub mod Readers
pub mod Places
