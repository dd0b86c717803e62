pub mod Tests
pub mod Signs
pub mod Entries
pub mod Finding
pub mod Counting
pub mod Writing
