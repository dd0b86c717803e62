-- What the inner contracts cite.
pub mod Chains
pub mod Swept
pub mod Taken
