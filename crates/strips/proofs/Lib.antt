pub mod Puts
pub mod Paths
pub mod Costs
pub mod Strips
pub mod Lent
