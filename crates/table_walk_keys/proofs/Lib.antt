pub mod Keys
pub mod Walking
