pub mod Meant
pub mod Lead
pub mod Places
pub mod Trees
