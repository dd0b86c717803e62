-- What only inner contracts cite.
pub mod Said
pub mod Laid
