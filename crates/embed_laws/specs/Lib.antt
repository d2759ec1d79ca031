pub mod Numbers
pub mod Nets
