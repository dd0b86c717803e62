pub mod Chosen
pub mod Passed
pub mod Ends
pub mod Cares
pub mod Built
pub mod Holds
