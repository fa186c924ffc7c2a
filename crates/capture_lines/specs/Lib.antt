pub mod Rest
pub mod Reads
pub mod Round
