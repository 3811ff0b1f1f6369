pub mod Follows
pub mod Meaning
pub mod Outcome
pub mod Vectors
pub mod Plain
