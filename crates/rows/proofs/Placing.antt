-- The placing, row by row: what holds at its end.
pub mod Heaviest
pub mod Open
pub mod Turns
pub mod Order
pub mod Spreads
pub mod Counts
pub mod Allowed
pub mod Within
pub mod Most
pub mod Smallest
pub mod Held
pub mod Wider
