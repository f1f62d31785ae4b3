pub mod BestWords
pub mod InsertingBest
pub mod DeliveringBest
pub mod DeliveredBest
pub mod MergingBest
pub mod MergingOn
pub mod BestTests
pub mod RightLists
