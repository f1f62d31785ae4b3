pub mod Merging
pub mod Bounds
pub mod Sets
pub mod Reports
