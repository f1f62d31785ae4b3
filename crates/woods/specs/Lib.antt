pub mod Woods
pub mod Growing
pub mod Refusals
pub mod Computing
pub mod Cases
