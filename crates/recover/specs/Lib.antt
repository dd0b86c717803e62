pub mod Recover
pub mod Every
pub mod Inner
