-- What the contracts of inner functions cite, and no public contract.
pub mod Within
