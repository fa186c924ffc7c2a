pub mod Line
pub mod Behind
pub mod Captures
pub mod Theorems
