pub mod Keys
pub mod KeysSamples
pub mod Inner
