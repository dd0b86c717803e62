pub mod Numerals
pub mod Lines
pub mod Looks
pub mod Fits
pub mod One
