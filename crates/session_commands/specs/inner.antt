-- What private clauses alone cite.
pub mod Posting
pub mod Serving
pub mod Recovering
