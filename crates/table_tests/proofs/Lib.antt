pub mod RowKinds
pub mod Refusing
pub mod Covering
pub mod Ends
