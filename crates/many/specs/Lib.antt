pub mod Lookups
pub mod Image
pub mod Inner
pub mod ManySamples
