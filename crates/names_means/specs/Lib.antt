pub mod Kept
pub mod Links
pub mod Gone
