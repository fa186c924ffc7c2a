pub mod Touch
pub mod Harmed
pub mod Strips
pub mod Sharper
