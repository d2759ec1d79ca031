pub mod Call
pub mod Course
pub mod Lasts
pub mod Leave
