-- The words of AUX, linked by rows.
pub mod Steps
pub mod Unlinking
pub mod Linking
pub mod Walks
