pub mod Came
pub mod Counts
pub mod More
pub mod Pieces
