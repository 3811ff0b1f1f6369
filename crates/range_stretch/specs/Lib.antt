pub mod Stretch
pub mod Asks
