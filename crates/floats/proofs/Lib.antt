-- Reading order: General, StepLaws, Scaled, Bits, WholeLaws, Examples.
pub mod StepLaws
pub mod Scaled
pub mod Bits
pub mod WholeLaws
pub mod Examples
