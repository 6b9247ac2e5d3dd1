pub mod RealLaws
pub mod MarkedLaws
pub mod KeyLaws
pub mod Theorems
