-- Reading order: Evaluate, Wants, Stages.
pub mod Evaluate
pub mod Wants
pub mod Stages
