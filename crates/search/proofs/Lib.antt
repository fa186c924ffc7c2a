pub mod Answer
pub mod Telling
pub mod Playing
pub mod Levels
pub mod Hunting
pub mod Once
