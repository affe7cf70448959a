pub mod Tables
pub mod Model
pub mod Area
pub mod Rows
pub mod Walk
