-- Reading order: Cell, Coefficients, Corners, Cells.
pub mod Cell
pub mod Coefficients
pub mod Corners
pub mod Cells
