pub mod Members
pub mod Joined
pub mod Alls
pub mod Parts
pub mod Walk
