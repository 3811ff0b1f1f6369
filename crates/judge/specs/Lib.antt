pub mod Rules
pub mod Check
