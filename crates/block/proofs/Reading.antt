-- Numbers, words and payloads read back from bytes.
pub mod Same
pub mod Numbers
pub mod Words
pub mod Blocks
pub mod Places
pub mod Looks
pub mod Laid
