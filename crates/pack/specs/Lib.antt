pub mod Pack
pub mod PackSamples
