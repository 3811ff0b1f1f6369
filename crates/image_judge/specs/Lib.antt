pub mod Judging
pub mod Asks
