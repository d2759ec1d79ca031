pub mod After
pub mod Room
pub mod Loops
pub mod Walk
