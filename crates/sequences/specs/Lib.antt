pub mod Sequences
pub mod Sorting
pub mod Buffers
pub mod Halves
