-- What only inner contracts cite.
pub mod Images
pub mod Keys
