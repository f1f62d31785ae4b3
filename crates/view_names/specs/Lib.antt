pub mod VisibleStrings
pub mod EncodedViews
