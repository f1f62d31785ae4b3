pub mod Sequences
pub mod Escapes
pub mod Characters
pub mod Computing
