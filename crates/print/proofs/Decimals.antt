-- Numbers in decimal: their digits, and their signs. Assumes nothing.
pub mod Digits
pub mod Signs
