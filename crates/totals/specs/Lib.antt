-- Reading order: Totals, Promises, then Parts.
pub mod Totals
pub mod Promises
pub mod Parts
