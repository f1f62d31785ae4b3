pub mod BigEndian
pub mod Told
