pub mod Ways
pub mod Parts
pub mod Rulings
pub mod Explanations
pub mod Once
pub mod Numbered
pub mod Said
