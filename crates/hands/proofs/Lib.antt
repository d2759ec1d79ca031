pub mod Grasp
