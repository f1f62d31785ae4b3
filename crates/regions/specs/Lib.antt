pub mod Regions
pub mod Answers
pub mod OneTable
