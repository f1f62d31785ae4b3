pub mod TableWords
pub mod Finding
