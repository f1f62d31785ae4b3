pub mod Grants
pub mod Search
