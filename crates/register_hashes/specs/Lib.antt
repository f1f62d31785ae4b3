pub mod Hashes
pub mod Computing
