-- What private clauses alone cite.
pub mod Tellings
-- What private clauses alone cite.
pub mod Turning
