pub mod Messages
pub mod Answers
pub mod SavedClients
pub mod Packets
pub mod Profiles
pub mod Profiled
