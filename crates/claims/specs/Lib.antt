-- Reading order: Third, Second, Corners, Calls, Marks, Examples, Pinned, Straight, Editions, Coarser.
pub mod Third
pub mod Second
pub mod Corners
pub mod Calls
pub mod Marks
pub mod Examples
pub mod Pinned
pub mod Straight
pub mod Editions
pub mod Coarser
