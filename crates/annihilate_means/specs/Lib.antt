pub mod Annihilates
