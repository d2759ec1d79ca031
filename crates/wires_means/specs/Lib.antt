pub mod Met
pub mod Stores
pub mod Wires
pub mod Rows
