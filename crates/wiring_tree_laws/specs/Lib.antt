pub mod Inside
pub mod Wired
pub mod Nets
