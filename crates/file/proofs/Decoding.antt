-- A file taken apart is the unit that was written.
pub mod Fields
pub mod Words
pub mod Units
pub mod Same
pub mod Again
pub mod Answers
pub mod Tries
pub mod Built
pub mod Fitting
