pub mod DoseLaws
pub mod LineLaws
pub mod TableLaws
pub mod InputLaws
