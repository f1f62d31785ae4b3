pub mod Limits
pub mod Faults
pub mod Closings
pub mod SurveyNumbers
pub mod Sizes
pub mod YearLimits
pub mod YearPlaces
