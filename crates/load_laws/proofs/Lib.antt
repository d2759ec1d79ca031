pub mod Begin
pub mod Loaded
pub mod Loads
pub mod Net
pub mod Start
