pub mod Spans
pub mod Unique
pub mod Labels
pub mod Count
pub mod Fixed
pub mod Walking
