pub mod Views
pub mod Renumbered
pub mod Viewing
pub mod Refusals
pub mod Exactness
pub mod Hidden
pub mod Computing
