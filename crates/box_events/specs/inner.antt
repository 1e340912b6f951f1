-- What inner clauses cite; a reader of the contracts needs none of it.
pub mod EventCodes
pub mod Pages
pub mod Chains
pub mod Runs
pub mod Insides
-- What inner clauses cite; a reader of the contracts needs none of it.
pub mod Merging
pub mod Parted
