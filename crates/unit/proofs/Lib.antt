pub mod Tries
pub mod Demand1
pub mod Demand2
pub mod Demand3
pub mod Excess
pub mod Allowance
