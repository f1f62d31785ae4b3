pub mod Carrying
pub mod Decoding
pub mod Strings
