pub mod Names
pub mod Steps
