pub mod Mapped
pub mod Storing
pub mod Over
