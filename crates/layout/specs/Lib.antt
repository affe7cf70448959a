pub mod Layout
pub mod Words
pub mod Areas
pub mod Budget
