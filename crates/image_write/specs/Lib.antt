pub mod Writing
pub mod Asks
