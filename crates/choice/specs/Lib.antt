pub mod Choice
pub mod Least
pub mod Choosing
pub mod Inner
