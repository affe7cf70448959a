mod PartRows
mod Spacing
