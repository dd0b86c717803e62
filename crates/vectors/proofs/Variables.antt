pub mod Numbers
pub mod Masking
pub mod Faults
