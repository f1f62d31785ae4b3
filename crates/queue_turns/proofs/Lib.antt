pub mod Numbering
pub mod Plans
pub mod Bounds
pub mod Outcomes
pub mod Serves
