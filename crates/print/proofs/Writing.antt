-- Texts written at places: one, a number's digits from the last, piece after piece, numbers after a name, and numbers behind lines. Assumes nothing.
pub mod Puts
pub mod Spelling
pub mod Pieces
pub mod Words
pub mod Beside
