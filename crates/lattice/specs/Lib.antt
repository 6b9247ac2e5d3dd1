-- Reading order: Outcome, Answers, Buffer, Digits, Shape, Axes, Records, Flat.
pub mod Outcome
pub mod Answers
pub mod Buffer
pub mod Digits
pub mod Shape
pub mod Axes
pub mod Records
pub mod Flat
