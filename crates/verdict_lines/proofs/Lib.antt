pub mod Signs
pub mod Marks
pub mod Others
