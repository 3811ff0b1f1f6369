pub mod Weighing
pub mod Told
pub mod Laws
