pub mod Holds
pub mod Finished
pub mod ByOutcomes
pub mod YearsHold
pub mod PruningsHold
pub mod DeepPruningsHold
