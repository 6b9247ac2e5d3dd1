-- Reading order: Report, Parts.
pub mod Report
pub mod Parts
