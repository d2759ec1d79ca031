pub mod Alls
pub mod Places
pub mod Chains
