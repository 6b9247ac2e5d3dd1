pub mod ConvertBack
pub mod BackLaws
pub mod Inverse
pub mod Whole
pub mod Possible
pub mod CallLaws
pub mod Calls
pub mod Demand
