pub mod Sieve
pub mod Sweep
pub mod Dirty
