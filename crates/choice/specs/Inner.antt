-- What only inner contracts cite.
pub mod Split
pub mod Groups
pub mod Layout
pub mod Gain
pub mod Laid
pub mod Judged
pub mod Search
pub mod Sheets
pub mod Ties
pub mod Best
