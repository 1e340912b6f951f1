pub mod Schemas
pub mod Answers
pub mod Packets
pub mod Servers
