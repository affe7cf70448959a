pub mod QuadSteps
