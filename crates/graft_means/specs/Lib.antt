pub mod Names
pub mod Joins
pub mod Net
pub mod Ready
pub mod Tests
pub mod Held
pub mod Children
