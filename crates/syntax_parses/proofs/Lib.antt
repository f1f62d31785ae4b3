pub mod Stacks
pub mod Feeding
pub mod Parsing
