pub mod Rows
mod Aligned
mod Numbers
mod Seen
