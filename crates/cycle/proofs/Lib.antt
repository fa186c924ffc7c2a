pub mod Agree
pub mod Start
pub mod Slots
pub mod Whole
