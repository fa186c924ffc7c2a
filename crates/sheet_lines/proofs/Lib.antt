pub mod Order
pub mod Adding
pub mod Lines
pub mod Rated
pub mod Room
