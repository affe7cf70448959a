pub mod Lent
pub mod Books
pub mod Opened
pub mod Slots
