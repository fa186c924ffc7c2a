pub mod Weigh
pub mod Light
pub mod Risks
