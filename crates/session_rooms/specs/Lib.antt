pub mod Sending
pub mod Conversing
pub mod Client
pub mod ClientLaws
pub mod Post
pub mod PostLaws
pub mod PostWrites
pub mod inner
