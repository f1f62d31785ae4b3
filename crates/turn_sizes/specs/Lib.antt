pub mod Testing
