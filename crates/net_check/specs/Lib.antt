pub mod Verdict
pub mod Later
pub mod Exact
