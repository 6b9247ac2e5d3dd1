-- Reading order: Powers, then Parts.
pub mod Powers
pub mod Parts
