pub mod Testing
pub mod Filling
pub mod Checking
pub mod Cases
pub mod Naming
pub mod One
