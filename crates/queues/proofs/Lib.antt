pub mod Moving
pub mod Accounting
pub mod Fairness
pub mod Refusals
