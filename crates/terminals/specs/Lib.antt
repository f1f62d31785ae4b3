pub mod Spellings
pub mod Names
pub mod Terminals
pub mod Computing
