pub mod ClosedLists
pub mod Stints
pub mod Holding
pub mod Runs
pub mod Cut
pub mod Answered
pub mod OneTable
