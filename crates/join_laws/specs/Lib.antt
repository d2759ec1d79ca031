pub mod Ports
pub mod Link
pub mod Join
