pub mod Parts
pub mod Touch
pub mod Harmed
pub mod Fragile
pub mod Strips
pub mod Sharper
pub mod OneCable
