pub mod Load
pub mod Inner
