pub mod Putting
pub mod Descending
pub mod Ways
