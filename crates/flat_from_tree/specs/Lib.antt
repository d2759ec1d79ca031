pub mod Words
pub mod Exact
