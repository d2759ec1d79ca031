pub mod Links
pub mod Wires
