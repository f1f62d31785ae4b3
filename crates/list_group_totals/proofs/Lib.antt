pub mod TotalsWords
pub mod FlatGroups
