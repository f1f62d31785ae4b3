pub mod Walking
pub mod Plain
pub mod Marks
