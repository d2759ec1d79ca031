pub mod Sums
pub mod Slots
pub mod Lengths
pub mod Nets
pub mod Measured
