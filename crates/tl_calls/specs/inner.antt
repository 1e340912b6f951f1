-- What inner clauses cite; a reader of the contracts needs none of it.
pub mod Judging
pub mod Making
pub mod ValueCodes
