pub mod Round
pub mod Laws
