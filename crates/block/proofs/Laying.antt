-- Bytes laid into a block.
pub mod Putting
pub mod Held
pub mod Words
