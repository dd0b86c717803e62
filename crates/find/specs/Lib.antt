pub mod Keys
pub mod Given
pub mod Find
pub mod FindSamples
pub mod Inner
