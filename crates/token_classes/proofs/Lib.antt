pub mod SpansRead
