-- Reading order: Coefficients, then Blocks.
pub mod Coefficients
pub mod Blocks
