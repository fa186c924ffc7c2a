pub mod Down
pub mod Pairs
