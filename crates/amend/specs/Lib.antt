pub mod Amend
pub mod AmendSamples
