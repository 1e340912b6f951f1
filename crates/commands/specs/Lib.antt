pub mod Numbers
pub mod Requests
pub mod CommandLine
pub mod KeepWords
pub mod Usage
pub mod Work
