pub mod Table
pub mod Mapped
pub mod Cells
