-- The tests of a file are those that tell a unit's file.
pub mod Said
pub mod Heads
pub mod Tables
pub mod Files
pub mod Steps
