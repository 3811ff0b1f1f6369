pub mod Shows
pub mod Found
