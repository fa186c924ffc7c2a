pub mod Laying
pub mod Program
