pub mod Loops
pub mod Signed
pub mod Held
pub mod There
pub mod Bounds
pub mod Ways
pub mod InTime
