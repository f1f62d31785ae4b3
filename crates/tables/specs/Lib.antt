pub mod Tables
pub mod Ranges
pub mod Years
pub mod RowLists
pub mod Right
pub mod Sides
pub mod Computing
