pub mod Packing
pub mod Listing
pub mod Building
pub mod Placing
pub mod Parts
pub mod Known
pub mod Promise
pub mod One
