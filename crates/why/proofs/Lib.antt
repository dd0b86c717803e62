pub mod Saying
pub mod Whys
pub mod Fits
pub mod Earlier
