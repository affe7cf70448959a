mod OperandBytes
mod PartSteps
mod Stopping
mod PlaceLaws
mod Placing
mod RecipeBytes
pub mod LineLaws
mod NumberSteps
mod NumberTrips
mod RecipeTrips
pub mod ReadableCalls
