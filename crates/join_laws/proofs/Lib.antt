pub mod Join
pub mod Link
