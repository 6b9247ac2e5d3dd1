-- Reading order: Pool, Parts.
pub mod Pool
pub mod Parts
