pub mod Raising
pub mod Merged
pub mod Counting
