pub mod UploadsHold
pub mod ViewsHold
pub mod OwnersHold
