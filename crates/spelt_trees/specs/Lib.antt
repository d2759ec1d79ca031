pub mod Spelt
pub mod Lies
pub mod Scanned
