pub mod FileWords
pub mod LaidOut
pub mod Examples
pub mod FileSizes
