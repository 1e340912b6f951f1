-- What inner clauses cite; a reader of the contracts needs none of it.
pub mod Bytes
pub mod Frames
pub mod Walks
pub mod Openings
