pub mod Once
pub mod Cutting
pub mod Repeats
pub mod Numbered
pub mod Places
pub mod NumberCall
pub mod Worked
