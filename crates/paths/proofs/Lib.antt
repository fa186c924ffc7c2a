pub mod Laws
pub mod Earliest
pub mod Walk
