pub mod Asking
pub mod Ways
