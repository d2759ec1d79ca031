pub mod Begin
pub mod Ways
