pub mod Bytes
pub mod Capture
pub mod Round
pub mod Pieces
