pub mod Count
pub mod Laws
