pub mod NamedStemsHold
