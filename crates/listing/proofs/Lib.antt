pub mod Lines
pub mod Printing
pub mod Room
pub mod Fronts
