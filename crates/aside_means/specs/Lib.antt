pub mod Hushed
pub mod Both
pub mod Aside
pub mod Steps
