pub mod Scan
pub mod Count
