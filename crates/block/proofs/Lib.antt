pub mod Laying
pub mod Check
pub mod Reading
