pub mod Tables
pub mod Nets
pub mod Result
pub mod Accepted
