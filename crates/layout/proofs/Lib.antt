pub mod Owners
pub mod Placed
