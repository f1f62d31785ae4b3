pub mod Untidy
pub mod AmongOthers
pub mod LastTurn
pub mod HiddenRows
