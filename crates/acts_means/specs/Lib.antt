pub mod Acted
pub mod Orderly
pub mod Holds
pub mod Compared
pub mod Pairs
pub mod Alone
