pub mod Spelled
pub mod Shown
pub mod Outcomes
pub mod Stepping
pub mod inner
