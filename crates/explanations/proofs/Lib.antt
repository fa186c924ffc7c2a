pub mod Crossings
pub mod Ways
pub mod Asking
