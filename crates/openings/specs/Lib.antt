pub mod Openings
pub mod Forms
