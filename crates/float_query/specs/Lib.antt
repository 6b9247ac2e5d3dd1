-- Reading order: Floats, Answers.
pub mod Floats
pub mod Answers
