pub mod Outcome
pub mod Recut
pub mod After
pub mod Runs
