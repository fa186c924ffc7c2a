pub mod View
pub mod Lies
