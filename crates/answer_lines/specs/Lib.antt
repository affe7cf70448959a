pub mod Shown
pub mod Quads
pub mod Showings
