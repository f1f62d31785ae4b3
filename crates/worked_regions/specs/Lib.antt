pub mod Regions
pub mod Reached
