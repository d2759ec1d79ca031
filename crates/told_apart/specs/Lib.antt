pub mod ToldApart
pub mod Calls
