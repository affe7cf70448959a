pub mod Documents
pub mod Torn
pub mod Keeping
pub mod FirstLine
pub mod Errors
pub mod Replaying
pub mod Statements
