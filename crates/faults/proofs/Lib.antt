pub mod Repeats
pub mod Seconds
pub mod Laws
