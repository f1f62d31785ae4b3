pub mod Finding
pub mod Lending
