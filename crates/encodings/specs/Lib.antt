pub mod Encodings
pub mod Gathered
pub mod NumberedTerms
pub mod StringRows
pub mod StringGraphs
