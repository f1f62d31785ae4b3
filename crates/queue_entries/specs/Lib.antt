pub mod Entries
pub mod Seeing
