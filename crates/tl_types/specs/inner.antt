-- What inner clauses cite; a reader of the contracts needs none of it.
pub mod Reading
pub mod Plain
