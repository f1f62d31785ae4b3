pub mod Registers
pub mod Reports
pub mod Comparing
pub mod ShortSides
