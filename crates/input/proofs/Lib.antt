pub mod Decimals
pub mod Reading
pub mod Opening
pub mod One
