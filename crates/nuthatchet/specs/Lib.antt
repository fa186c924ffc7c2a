pub mod Told
pub mod Part
pub mod Ruled
pub mod Explained
