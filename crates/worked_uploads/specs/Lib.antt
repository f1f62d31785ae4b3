pub mod Uploads
pub mod Views
pub mod Owners
