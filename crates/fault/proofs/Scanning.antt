-- A text read byte by byte. Assumes nothing.
pub mod Causes
pub mod Reading
pub mod Bodies
pub mod Judging
