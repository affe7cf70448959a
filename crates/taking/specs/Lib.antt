pub mod Parts
pub mod Takes
pub mod Wanted
pub mod Laws
