pub mod Laid
pub mod Room
pub mod Pairs
pub mod Whole
pub mod Small
pub mod Blocks
pub mod Drawing
