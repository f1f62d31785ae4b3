pub mod ShapeCases
