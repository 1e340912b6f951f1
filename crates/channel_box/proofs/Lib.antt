pub mod Brought
pub mod Ids
pub mod Indexes
pub mod Loops
pub mod Whole
pub mod Anew
