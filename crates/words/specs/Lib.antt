pub mod Words
pub mod Former
pub mod Bindings
pub mod Tests
pub mod Answers
pub mod Computing
