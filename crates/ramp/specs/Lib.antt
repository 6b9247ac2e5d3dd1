-- Reading order: Ramp, Parts.
pub mod Ramp
pub mod Parts
