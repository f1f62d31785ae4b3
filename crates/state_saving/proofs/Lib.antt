pub mod Storing
pub mod Restoring
pub mod WalkedLevels
pub mod Loads
