pub mod Events
pub mod Where
pub mod Stand
pub mod Slot
pub mod Pass
pub mod Seen
