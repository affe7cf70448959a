pub mod Words
pub mod Numerals
pub mod Readers
pub mod Spaced
