-- The check: how it is summed, and what alters it.
pub mod Sums
pub mod Columns
pub mod Whole
pub mod Divisors
pub mod Guarding
