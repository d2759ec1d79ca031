pub mod Fresh
pub mod Length
pub mod Resumable
