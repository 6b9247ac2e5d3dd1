-- Laws of the definitions, for the crates above.
pub mod OutcomeLaws
pub mod BufferLaws
pub mod DigitsLaws
pub mod ShapeLaws
pub mod StepLaws
pub mod Along
pub mod Local
pub mod Straight
pub mod PassLaws
pub mod PassesLaws
pub mod RecordsLaws
