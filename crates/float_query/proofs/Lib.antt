pub mod FloatLaws
pub mod Theorems
