pub mod Leaving
pub mod Turns
pub mod Whole
