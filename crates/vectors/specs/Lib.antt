pub mod Bounds
pub mod Bits
pub mod Variable
pub mod Word
pub mod Masks
