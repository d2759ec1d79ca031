pub mod Slots
pub mod Safe
pub mod Tidy
pub mod Loops
