-- The cells as bits, and the search by them.
pub mod Words
pub mod Bits
pub mod Gathering
pub mod Search
