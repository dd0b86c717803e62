-- What the entry answers.
pub mod Owned
pub mod Unfit
pub mod Settled
pub mod Single
pub mod Told
