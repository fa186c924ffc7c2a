pub mod Bytes
pub mod Ends
pub mod Made
