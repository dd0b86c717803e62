pub mod Refusing
pub mod Writing
pub mod Holding
pub mod Places
pub mod Cells
pub mod Allowed
pub mod Telling
