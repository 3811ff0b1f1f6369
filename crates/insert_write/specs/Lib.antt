pub mod Merged
pub mod Cells
pub mod Write
