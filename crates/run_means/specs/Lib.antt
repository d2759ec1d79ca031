pub mod Count
pub mod Steps
pub mod Taken
pub mod Run
pub mod Turn
