pub mod Compared
pub mod Stream
