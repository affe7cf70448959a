pub mod Numbers
pub mod Recipes
pub mod Lines
pub mod Readings
pub mod Written
pub mod Statements
