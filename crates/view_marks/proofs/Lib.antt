pub mod Subjects
pub mod Visible
pub mod Marking
