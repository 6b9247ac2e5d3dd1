-- Reading order: Answers, Queries; Parts serves the contracts of inner functions only.
pub mod Answers
pub mod Queries
pub mod Parts
