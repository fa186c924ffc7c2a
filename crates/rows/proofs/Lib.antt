pub mod Index
pub mod Parts
pub mod Walked
pub mod Second
