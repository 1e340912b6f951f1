pub mod Causes
pub mod Loaded
pub mod JsonInput
pub mod Lines
pub mod Parts
pub mod Answering
pub mod inner
