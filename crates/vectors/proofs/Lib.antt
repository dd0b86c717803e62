pub mod Bits
pub mod Variables
pub mod Words
