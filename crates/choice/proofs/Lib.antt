pub mod Choice
pub mod Counting
pub mod Laying
pub mod Searching
pub mod Grouping
pub mod Choosing
pub mod One
