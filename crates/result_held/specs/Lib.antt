pub mod Follow
pub mod Held
