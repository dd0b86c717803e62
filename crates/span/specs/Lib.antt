pub mod Within
pub mod Span
pub mod Fixed
pub mod Inner
