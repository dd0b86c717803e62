pub mod Places
pub mod Crossing
pub mod Fitting
pub mod Loop
pub mod Stages
pub mod Columns
pub mod Masks
