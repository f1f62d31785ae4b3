pub mod LineBytes
pub mod Widths
