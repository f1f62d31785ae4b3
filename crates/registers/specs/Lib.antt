pub mod Registers
pub mod Computing
