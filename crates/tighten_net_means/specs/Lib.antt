pub mod Pass
pub mod Sweep
pub mod Net
