pub mod Room
pub mod Linking
pub mod Keeping
pub mod Passing
