-- What only inner contracts cite.
pub mod Formed
pub mod Parts
