pub mod Placing
pub mod RowWords
pub mod BestSearching
