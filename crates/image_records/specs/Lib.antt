pub mod Records
pub mod Images
pub mod Meaning
pub mod First
pub mod Stores
pub mod Fields
