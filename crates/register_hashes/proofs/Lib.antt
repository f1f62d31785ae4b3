pub mod Halves
pub mod Ranks
pub mod Vectors
