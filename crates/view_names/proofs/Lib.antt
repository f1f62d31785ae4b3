pub mod HiddenNames
pub mod Places
pub mod EncodedViews
pub mod Sorted
