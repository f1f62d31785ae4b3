pub mod QueueCases
pub mod Queues
