pub mod Opens
pub mod Fields
pub mod Decimal
pub mod Input
pub mod InputSamples
pub mod Inner
