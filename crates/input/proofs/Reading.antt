-- How a text is read: its fields, its numbers one by one, and the texts that are good. Assumes nothing.
pub mod Numbers
pub mod Texts
pub mod Bytes
