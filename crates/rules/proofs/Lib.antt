mod PartRows
pub mod Rows
