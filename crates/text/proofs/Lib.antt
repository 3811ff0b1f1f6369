pub mod Lines
pub mod Decimal
pub mod Long
