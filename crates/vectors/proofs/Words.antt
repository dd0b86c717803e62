pub mod Packing
pub mod Runs
pub mod Laws
