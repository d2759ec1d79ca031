pub mod Faces
pub mod Pair
pub mod Reduces
