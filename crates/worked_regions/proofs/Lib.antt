pub mod RegionsHold
pub mod ReachedHold
