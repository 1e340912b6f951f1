pub mod Types
pub mod Entries
pub mod Reached
pub mod Plans
pub mod Seen
pub mod PlanLaws
pub mod inner
