-- Every answer fits the page. Assumes nothing.
pub mod Placed
pub mod Refused
pub mod Unit
pub mod Page
