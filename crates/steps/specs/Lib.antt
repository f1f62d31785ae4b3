pub mod Machines
pub mod Levels
pub mod Positions
pub mod Years
pub mod Steps
pub mod Saved
pub mod StateForms
pub mod Computing
