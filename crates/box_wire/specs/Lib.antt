pub mod Kinds
pub mod Framing
pub mod Answers
pub mod FramesRead
pub mod Laws
pub mod inner
pub mod StepReading
