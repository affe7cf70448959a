pub mod Walk
pub mod Listing
pub mod Entries
