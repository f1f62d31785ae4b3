pub mod Owners
pub mod InTurn
