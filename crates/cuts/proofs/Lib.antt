pub mod Downs
pub mod Pairs
pub mod Ranges
