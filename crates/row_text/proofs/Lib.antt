pub mod Lines
pub mod Words
pub mod Front
pub mod Enough
pub mod Ways
pub mod Theorems
