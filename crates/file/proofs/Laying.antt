-- The bytes of a file, laid one after another.
pub mod Counts
pub mod Stacks
pub mod Heads
pub mod Files
