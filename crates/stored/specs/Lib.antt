pub mod Stored
pub mod Laws
pub mod Pass
pub mod Parts
pub mod Body
