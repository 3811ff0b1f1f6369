pub mod Seg
pub mod Cuts
