pub mod Truths
pub mod Runs
pub mod Lists
pub mod Finished
pub mod Callers
pub mod Cases
