pub mod Searching
pub mod KeySides
pub mod DeliveredGroups
pub mod PutAnswers
pub mod PutGroups
pub mod Placed
pub mod GroupSearch
