pub mod TopUps
pub mod Joins
