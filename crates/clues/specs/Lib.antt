pub mod Clues
