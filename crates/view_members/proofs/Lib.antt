pub mod Members
pub mod Years
