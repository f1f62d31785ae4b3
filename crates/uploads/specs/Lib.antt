pub mod Uploads
pub mod Making
pub mod Refusals
pub mod Exactness
pub mod Computing
