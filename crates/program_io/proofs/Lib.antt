mod Reading
pub mod Fits
pub mod Pieces
