pub mod Get
pub mod Table
pub mod Linked
