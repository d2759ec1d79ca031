pub mod Paths
pub mod Read
pub mod Places
pub mod Named
