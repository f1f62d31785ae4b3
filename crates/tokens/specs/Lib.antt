pub mod Classes
pub mod Runs
pub mod Numerals
pub mod Texts
pub mod Tokens
pub mod TokenWords
pub mod Computing
