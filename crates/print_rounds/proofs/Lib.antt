pub mod Asking
pub mod Steps
pub mod Openings
