pub mod Dated
pub mod DatedSamples
