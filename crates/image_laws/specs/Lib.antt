pub mod Writing
pub mod Reading
pub mod Same
pub mod Round
