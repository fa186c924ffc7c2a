pub mod Kept
pub mod Adding
