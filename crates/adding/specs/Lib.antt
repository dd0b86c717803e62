pub mod Calls
pub mod Boundary
