pub mod Writing
pub mod Counts
pub mod Computing
