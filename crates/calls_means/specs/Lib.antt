pub mod Absent
pub mod Begin
pub mod Carries
pub mod Finish
pub mod Slice
pub mod Slices
pub mod Stands
