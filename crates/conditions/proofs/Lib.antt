pub mod ComparisonCases
pub mod Reading
pub mod Places
pub mod Skipping
pub mod Evaluating
pub mod Logic
pub mod Former
