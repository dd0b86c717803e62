-- A row lifted and put again, by the words of AUX and the first cells.
pub mod Mates
pub mod Lifting
pub mod Putting
pub mod Refitting
pub mod Rows
pub mod Outcomes
