pub mod Start
pub mod NewNet
pub mod Called
