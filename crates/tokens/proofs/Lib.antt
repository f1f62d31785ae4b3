mod Worked
pub mod RunBounds
pub mod TokenBounds
pub mod Passing
pub mod TokensWithin
