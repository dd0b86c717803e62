pub mod Laying
pub mod Outcomes
pub mod Loading
pub mod Decoding
pub mod One
