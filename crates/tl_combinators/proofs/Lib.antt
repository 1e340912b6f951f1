mod OneToken
mod Digits
mod Parentheses
mod Levels
mod Arguments
mod BuiltInLines
mod TokenParts
mod Conditions
mod Counts
pub mod Describing
pub mod DescribedRule
mod EqualDescriptions
mod Rows
mod TakenRows
mod Lawful
mod DecidedTokens
mod LawfulProgram
pub mod OneProgram
mod Spanned
mod Exact
pub mod Decided
pub mod Values
pub mod WrittenNumbers
pub mod WithinLimits
pub mod Causes
