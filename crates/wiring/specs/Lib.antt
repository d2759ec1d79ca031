pub mod Wiring
pub mod Fits
pub mod Steps
pub mod Tells
