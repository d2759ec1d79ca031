pub mod Ascend
pub mod Pairs
pub mod Flat
pub mod Nets
pub mod Trees
