pub mod Tally
pub mod Sheet
