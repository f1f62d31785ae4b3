pub mod Tested
pub mod ByKind
