pub mod Decimals
pub mod Writing
pub mod Pages
pub mod Sentences
