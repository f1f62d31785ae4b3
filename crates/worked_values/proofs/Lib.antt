pub mod RegistersHold
pub mod ConditionsHold
