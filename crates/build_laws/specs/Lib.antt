pub mod Builds
pub mod Leaves
