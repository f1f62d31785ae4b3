pub mod Files
pub mod FileSizes
