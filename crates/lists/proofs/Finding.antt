pub mod Has
pub mod Firsts
pub mod Repeats
pub mod NonePass
pub mod Equals
pub mod Places
