pub mod Outcomes
pub mod Numbers
pub mod Ways
pub mod Reading
pub mod Theorems
