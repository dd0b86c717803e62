pub mod Cut
pub mod Split
pub mod Held
