pub mod First
pub mod Members
pub mod Cut
