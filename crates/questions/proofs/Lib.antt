pub mod Listed
pub mod Along
pub mod CountedDown
