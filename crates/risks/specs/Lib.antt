pub mod Weighed
pub mod Risks
