pub mod Order
pub mod Best
pub mod Lines
pub mod Tying
pub mod Answered
