pub mod Kinds
pub mod Orders
pub mod States
pub mod Terms
