pub mod CellLaws
pub mod CellsLaws
pub mod NumberLaws
pub mod CornerLaws
pub mod CornerRecords
pub mod OneCell
pub mod LimitLaws
pub mod LayoutLaws
