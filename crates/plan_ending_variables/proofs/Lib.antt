pub mod EndingRight
