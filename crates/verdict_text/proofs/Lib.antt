pub mod Verdicts
pub mod Slacks
pub mod Room
pub mod Composing
pub mod Theorems
