pub mod Exact
pub mod Keeps
