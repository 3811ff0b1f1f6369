pub mod Meaning
pub mod Cells
pub mod Outcome
pub mod Wrong
