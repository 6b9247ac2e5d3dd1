pub mod QueryLaws
pub mod Renumbered
pub mod Locate
pub mod Coarse
pub mod CoarseCalls
pub mod OneCell
