pub mod Lists
pub mod Ways
