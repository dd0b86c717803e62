-- What only inner contracts cite.
pub mod Seats
pub mod Mates
pub mod Checks
pub mod Moves
pub mod Rows
