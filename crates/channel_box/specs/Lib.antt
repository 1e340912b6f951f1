pub mod States
pub mod Steps
pub mod Calls
pub mod Looks
pub mod Finding
pub mod Views
pub mod ChannelViews
pub mod Laws
