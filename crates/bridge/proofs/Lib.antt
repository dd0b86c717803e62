pub mod Answers
pub mod Boundary
pub mod Files
pub mod Together
