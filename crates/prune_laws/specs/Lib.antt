pub mod Members
pub mod Few
pub mod Exact
pub mod Below
pub mod Accepts
pub mod Keeps
