pub mod Sums
pub mod Loop
pub mod Compose
