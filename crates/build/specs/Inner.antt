-- What only inner contracts cite.
pub mod Ready
pub mod Places
pub mod Stops
pub mod Charts
