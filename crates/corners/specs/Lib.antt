-- Reading order: Corners, then Back.
pub mod Corners
pub mod Back
