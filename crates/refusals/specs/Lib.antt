pub mod Numbers
pub mod Told
