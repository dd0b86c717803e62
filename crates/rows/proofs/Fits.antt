-- First fit of one row, and the cells that it takes.
pub mod First
pub mod Filled
pub mod Bound
pub mod Needed
pub mod Cells
pub mod Columns
