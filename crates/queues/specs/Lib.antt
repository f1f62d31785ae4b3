pub mod Lists
pub mod Changing
pub mod Joining
pub mod ToppingUp
pub mod Serving
pub mod Calls
pub mod Computing
