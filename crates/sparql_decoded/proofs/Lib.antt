pub mod Decoded
pub mod Late
