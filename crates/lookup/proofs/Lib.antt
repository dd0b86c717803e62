pub mod Pass
pub mod Lookups
pub mod Exact
pub mod Indices
