pub mod Fits
pub mod Placing
pub mod Demand3
pub mod Chains
pub mod Taken
pub mod Sweeps
pub mod Answers
pub mod Samples
