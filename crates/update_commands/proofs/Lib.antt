pub mod OneReplay
pub mod Reports
pub mod JournalFiles
pub mod ProfiledFiles
pub mod OneMake
pub mod Profiling
pub mod ProfiledLaws
mod RunsMade
pub mod MakingLaws
mod Parts
mod Replayed
pub mod ReplayingLaws
