-- The rows placed by sweeps, and the way back.
pub mod Levels
pub mod Marks
pub mod Undoing
pub mod Back
pub mod Going
