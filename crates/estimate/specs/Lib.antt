-- Reading order: Estimate, Passes.
pub mod Estimate
pub mod Passes
