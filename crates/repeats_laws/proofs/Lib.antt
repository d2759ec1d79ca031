pub mod Exact
pub mod Many
pub mod Names
pub mod Paths
