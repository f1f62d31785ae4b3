pub mod Refusals
pub mod NeverBack
