pub mod Bits
pub mod Collected
pub mod Adds
pub mod Rules
pub mod Built
