pub mod Truth
pub mod Evaluated
pub mod Values
pub mod Former
pub mod Computing
