pub mod Answering
pub mod Opened
