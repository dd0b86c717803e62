pub mod Why
pub mod Facts
pub mod WhySamples
