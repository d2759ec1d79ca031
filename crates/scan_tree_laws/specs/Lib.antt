pub mod Scanned
pub mod Trees
pub mod Net
