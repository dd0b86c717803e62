pub mod Tables
pub mod Record
pub mod Formed
pub mod Leads
pub mod Holds
pub mod Inner
