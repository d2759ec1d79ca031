pub mod Head
pub mod Laws
