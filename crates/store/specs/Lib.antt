pub mod Refusals
pub mod Steps
pub mod View
pub mod Laws
