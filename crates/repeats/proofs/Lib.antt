pub mod Limit
pub mod Walking
pub mod Chaining
