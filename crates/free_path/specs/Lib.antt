pub mod FreePath
pub mod Steps
