pub mod Names
pub mod Check
pub mod Front
