pub mod CallReports
pub mod Calls
pub mod Answering
pub mod inner
pub mod CallsWork
pub mod Commands
