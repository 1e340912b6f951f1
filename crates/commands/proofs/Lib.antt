pub mod Decided
pub mod NumberWords
pub mod KeepWords
pub mod Channels
pub mod Rows
pub mod Ranges
pub mod RowsTold
pub mod OperandsRead
pub mod CommandsRead
pub mod Found
pub mod WordsRead
pub mod WordsParted
mod Digits
pub mod RunsWords
