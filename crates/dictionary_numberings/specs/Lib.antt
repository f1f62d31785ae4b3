pub mod Numbering
pub mod Sorted
pub mod NumberCall
