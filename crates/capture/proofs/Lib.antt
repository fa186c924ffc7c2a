pub mod Triples
pub mod Keeping
pub mod Adding
pub mod Walk
pub mod Sizes
