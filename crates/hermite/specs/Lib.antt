pub mod Hermite
pub mod Stage
