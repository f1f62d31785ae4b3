pub mod Digits
pub mod Continuing
