-- Laws of the definitions, for the crates above.
pub mod HermiteLaws
pub mod StagePoint
pub mod Scaled
pub mod Straight
pub mod BackLaws
pub mod Reach
pub mod Sizes
pub mod DotLaws
pub mod StageLaws
pub mod WeightLaws
pub mod BasisLaws
pub mod EndLaws
