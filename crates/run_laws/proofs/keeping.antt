pub mod Ending
pub mod Entries
pub mod Jobs
pub mod Openings
pub mod Rooms
pub mod Running
pub mod Serving
pub mod Spared
