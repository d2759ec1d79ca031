pub mod Tells
pub mod Walk
pub mod First
pub mod Pairs
pub mod Interact
pub mod Rewrite
pub mod Visit
