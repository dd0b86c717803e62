pub mod Tied
pub mod Edges
pub mod Tags
pub mod Recovery
pub mod Depend
pub mod Walk
