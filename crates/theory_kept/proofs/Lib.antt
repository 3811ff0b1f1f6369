pub mod Cells
pub mod Splices
pub mod Outcome
pub mod Kept
pub mod After
pub mod Built
