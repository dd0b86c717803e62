pub mod Fault
pub mod Facts
pub mod Inner
