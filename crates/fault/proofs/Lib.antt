pub mod Scanning
pub mod Faults
pub mod Told
pub mod One
