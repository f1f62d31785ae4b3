pub mod Putting
pub mod Rows
pub mod Marked
pub mod Outcome
pub mod Shown
