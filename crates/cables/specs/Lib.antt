pub mod Others
pub mod Ends
