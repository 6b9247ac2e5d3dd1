-- Reading order: Decimal, Lines.
pub mod Decimal
pub mod Lines
