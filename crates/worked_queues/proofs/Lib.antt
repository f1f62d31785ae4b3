pub mod QueuesHold
