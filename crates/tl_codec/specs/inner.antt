-- What private clauses alone cite.
pub mod Kept
pub mod Names
