pub mod Shown
pub mod Accepts
pub mod Views
pub mod Found
