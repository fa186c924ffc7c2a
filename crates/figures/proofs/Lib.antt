pub mod Rising
pub mod Ways
