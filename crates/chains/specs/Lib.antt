pub mod Seg
pub mod Pools
pub mod Moves
pub mod Give
pub mod Sift
