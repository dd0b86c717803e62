pub mod Adds
pub mod Fits
