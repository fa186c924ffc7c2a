pub mod Parts
pub mod Items
pub mod Found
