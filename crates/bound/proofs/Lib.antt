pub mod Last
pub mod Enough
pub mod Weights
pub mod Others
pub mod Planes
pub mod Fronting
pub mod Gathering
