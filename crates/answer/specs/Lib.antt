pub mod Make
pub mod Answer
pub mod AnswerSamples
pub mod Inner
