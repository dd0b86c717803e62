pub mod Makes
pub mod Answers
pub mod Fits
pub mod One
