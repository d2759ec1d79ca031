pub mod WireEnds
pub mod Ways
