pub mod Weighed
pub mod Decided
