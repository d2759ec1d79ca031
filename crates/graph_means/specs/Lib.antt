pub mod Marks
pub mod Wires
pub mod Holes
pub mod Links
