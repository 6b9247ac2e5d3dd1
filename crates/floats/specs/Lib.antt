-- Reading order: Step, Whole; Bits serves the contracts of the two inner functions only.
pub mod Step
pub mod Whole
pub mod Bits
