mod NumberSteps
mod SpanSteps
pub mod ReadBack
pub mod Bounds
pub mod Tails
