pub mod Tables
pub mod Frame
