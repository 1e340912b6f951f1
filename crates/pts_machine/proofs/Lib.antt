pub mod Links
pub mod Bounds
pub mod Ends
pub mod Kept
pub mod Moves
pub mod Parts
pub mod Fitting
pub mod Takings
pub mod Turns
pub mod Maps
mod Indexes
mod Rises
pub mod RowSteps
mod SortedRows
pub mod LatestValues
pub mod Stays
pub mod Growing
pub mod Dates
pub mod Agreements
pub mod Sums
pub mod Below
pub mod StateSteps
pub mod Stores
