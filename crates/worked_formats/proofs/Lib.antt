pub mod FormatsHold
