pub mod Marking
pub mod Repeats
pub mod RightNumbers
pub mod Judged
pub mod Judging
