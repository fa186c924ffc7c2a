pub mod Telling
pub mod Matching
pub mod Seen
pub mod Opening
pub mod Levels
pub mod Hunting
pub mod Once
