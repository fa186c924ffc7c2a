pub mod Text
pub mod Low
pub mod Theorems
