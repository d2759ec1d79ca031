pub mod Tests
pub mod Ranges
pub mod Marks
pub mod Walks
