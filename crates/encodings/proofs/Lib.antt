pub mod Encoded
pub mod Gathered
pub mod NumberedTerms
pub mod Graphs
pub mod SameWords
pub mod RowWords
