pub mod DecimalLaws
pub mod LineLaws
pub mod Theorems
pub mod Examples
