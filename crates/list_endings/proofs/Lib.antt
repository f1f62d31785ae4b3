pub mod Receiving
pub mod NoRows
pub mod Growing
