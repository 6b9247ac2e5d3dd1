-- Theorems has what the definitions say, Examples what they compute; the others are on the way to the contracts.
pub mod BytesLaws
pub mod TokensLaws
pub mod ScanLaws
pub mod FitsLaws
pub mod SumLaws
pub mod GrammarLaws
pub mod MeasureLaws
pub mod ImportLaws
pub mod Theorems
pub mod Examples
