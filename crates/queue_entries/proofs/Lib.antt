pub mod Standing
pub mod Finding
pub mod Placing
pub mod Seeing
