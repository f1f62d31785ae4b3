pub mod Counting
pub mod Reported
pub mod Answers
pub mod Refusals
pub mod Writes
