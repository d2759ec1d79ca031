pub mod Only
pub mod Places
pub mod Held
