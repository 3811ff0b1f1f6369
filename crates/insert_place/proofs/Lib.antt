pub mod Lower
pub mod Join
