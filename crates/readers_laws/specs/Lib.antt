pub mod Tables
pub mod Steps
pub mod Parts
pub mod Rules
pub mod Reads
pub mod Flat
pub mod Few
pub mod Bounds
