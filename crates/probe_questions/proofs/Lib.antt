pub mod Lent
pub mod Lines
pub mod Once
