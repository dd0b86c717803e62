pub mod Cells
pub mod CellsSamples
