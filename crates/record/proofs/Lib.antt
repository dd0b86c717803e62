pub mod Formed
pub mod Soundness
pub mod Marks
pub mod Excesses
pub mod MarkNumbers
