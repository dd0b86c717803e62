pub mod Listing
pub mod ListingSamples
