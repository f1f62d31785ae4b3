pub mod Opening
pub mod UntidyHold
pub mod AmongOthersHold
pub mod LastTurnHold
pub mod HiddenRowsHold
