pub mod Listings
pub mod FileQueries
pub mod Shown
