pub mod BestLists
