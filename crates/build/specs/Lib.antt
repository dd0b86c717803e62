pub mod Built
pub mod Refusals
pub mod Build
pub mod Cells
pub mod Inner
