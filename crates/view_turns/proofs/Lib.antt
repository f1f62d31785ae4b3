pub mod Adviser
