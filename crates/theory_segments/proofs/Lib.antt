pub mod Insert
pub mod Cuts
