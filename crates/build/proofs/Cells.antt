-- Builds of a list with other numbers of cells.
pub mod Checks
pub mod Placings
pub mod Builds
