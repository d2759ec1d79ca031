pub mod Hand
pub mod Grasp
