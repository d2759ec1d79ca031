pub mod Hands
pub mod Take
pub mod Wake
pub mod Answer
