pub mod BlankSteps
pub mod RunClasses
