pub mod Bytes
pub mod Block
pub mod Held
pub mod Look
pub mod Inner
