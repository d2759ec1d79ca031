pub mod Home
pub mod NetIn
pub mod Free
pub mod Net
pub mod Nets
