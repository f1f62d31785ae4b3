pub mod Least
pub mod ByKind
pub mod OutputRefusals
pub mod Refusals
