pub mod Picking
pub mod Playing
