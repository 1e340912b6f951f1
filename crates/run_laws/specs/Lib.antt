pub mod Ended
pub mod Kept
pub mod Requests
pub mod Answers
pub mod Runs
pub mod Touched
pub mod Sessions
