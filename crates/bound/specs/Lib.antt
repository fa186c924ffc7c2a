pub mod Bounds
pub mod Seconds
pub mod Weights
pub mod Fronts
pub mod Sets
