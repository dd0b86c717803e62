-- What reading makes of files, and of files that were changed.
pub mod Checks
pub mod Accepts
pub mod Again
pub mod Bytes
pub mod Changed
pub mod Damage
pub mod Carried
pub mod Demands
pub mod Loaded
pub mod Held
