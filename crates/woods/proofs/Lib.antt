pub mod Stems
pub mod Lengths
pub mod Refusals
pub mod Writes
pub mod Leaves
pub mod Cases
