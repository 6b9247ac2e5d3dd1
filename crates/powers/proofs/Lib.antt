pub mod MatrixLaws
pub mod PolynomialLaws
pub mod CallLaws
pub mod Theorems
