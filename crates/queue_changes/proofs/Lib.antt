pub mod Numbering
pub mod Following
pub mod Seeing
