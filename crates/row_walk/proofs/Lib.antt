pub mod Walk
pub mod Parts
pub mod Passing
