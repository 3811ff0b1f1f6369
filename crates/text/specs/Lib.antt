pub mod Lines
pub mod Decimal
