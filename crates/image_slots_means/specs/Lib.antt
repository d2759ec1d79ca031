pub mod Names
pub mod Ports
pub mod Slots
