-- Laws of the definitions, for the crates above, and of what the inner functions write.
pub mod EstimateLaws
pub mod Straight
pub mod PlacedLaws
pub mod PassesLaws
pub mod RingLaws
pub mod EntryLaws
pub mod RowsLaws
pub mod CallLaws
