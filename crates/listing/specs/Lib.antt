pub mod Prints
pub mod Room
