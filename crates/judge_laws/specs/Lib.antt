pub mod Answers
pub mod Exactly
pub mod Covered
