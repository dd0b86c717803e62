pub mod Gather
pub mod Ties
pub mod Stage
pub mod Places
