pub mod Ascii
pub mod Decimal
pub mod Line
pub mod Print
pub mod Sentence
pub mod PrintSamples
pub mod Inner
