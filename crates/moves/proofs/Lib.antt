pub mod Copy
pub mod Shift
pub mod Tail
pub mod Slots
