pub mod TurnLists
pub mod KeptLists
