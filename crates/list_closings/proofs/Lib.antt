pub mod ClosedGroups
pub mod ByClosing
