pub mod Unpack
pub mod Pack
