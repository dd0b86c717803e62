pub mod Key
pub mod Keys
pub mod Place
pub mod View
pub mod Facts
pub mod ProfileSamples
