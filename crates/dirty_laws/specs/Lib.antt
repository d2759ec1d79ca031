pub mod Tests
pub mod Tally
pub mod Firsts
pub mod Listed
