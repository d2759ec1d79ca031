pub mod Clones
pub mod Spares
pub mod Copies
pub mod Whole
pub mod Ports
pub mod Wires
