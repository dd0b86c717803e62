pub mod Add
pub mod AddSamples
pub mod Facts
pub mod Made
pub mod Demand1
pub mod Inner
