pub mod Dead
pub mod Stays
pub mod Stage
pub mod Inserts
pub mod Tries
