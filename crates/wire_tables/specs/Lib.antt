pub mod Tables
pub mod Ways
