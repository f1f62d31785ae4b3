pub mod Keys
pub mod Finding
pub mod TakingRows
