pub mod Slots
pub mod Head
pub mod Opened
pub mod Laws
pub mod Holding
