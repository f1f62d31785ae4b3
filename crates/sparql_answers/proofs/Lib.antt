pub mod Wood
pub mod Unique
pub mod UniqueRows
pub mod UniqueBest
pub mod OtherAnswers
pub mod OtherSums
pub mod TwoYears
pub mod Signs
