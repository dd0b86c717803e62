pub mod Charts
pub mod Recovery
pub mod Telling
pub mod Exact
pub mod Firsts
pub mod Every
pub mod Giving
pub mod Stored
