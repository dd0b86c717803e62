pub mod Lines
pub mod Powers
pub mod Packs
pub mod Fits
pub mod Asks
