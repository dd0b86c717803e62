pub mod Packs
pub mod Fits
