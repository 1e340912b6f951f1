-- What inner clauses cite; a reader of the contracts needs none of it.
pub mod ProfileCodes
pub mod Heads
pub mod Insides
pub mod Walks
