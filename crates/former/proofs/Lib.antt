pub mod Truths
pub mod Steps
pub mod Runs
pub mod Groups
pub mod Lists
pub mod Finished
pub mod Callers
pub mod Cases
