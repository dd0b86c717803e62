-- The page: its pieces, how long it is at the most, what is printed where it fits, and that of a well-formed unit. Assumes nothing.
pub mod Lines
pub mod Sizes
pub mod Fitting
pub mod Formed
pub mod Lengths
