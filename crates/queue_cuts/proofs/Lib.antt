pub mod FrontTurns
pub mod OwnersOnce
pub mod Arrivals
pub mod InStep
pub mod Independent
pub mod RightEntries
pub mod RightQueues
pub mod InTurn
