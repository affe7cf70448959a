pub mod Options
pub mod Requests
