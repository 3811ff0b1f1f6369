pub mod Insert
pub mod Cells
