pub mod LineTexts
pub mod Records
pub mod Lengths
pub mod Examples
