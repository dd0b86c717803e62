pub mod Columns
pub mod Splits
pub mod Three
pub mod Halves
pub mod Agree
pub mod Judging
