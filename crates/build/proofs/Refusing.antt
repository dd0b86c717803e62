pub mod Checks
pub mod Ladder
pub mod Builds
