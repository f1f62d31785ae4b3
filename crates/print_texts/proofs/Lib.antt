pub mod Decimals
pub mod Placements
pub mod Fields
pub mod Terms
