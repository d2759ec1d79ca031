pub mod Links
pub mod Convert
pub mod Resolve
pub mod Prune
pub mod Calls
pub mod Worked
