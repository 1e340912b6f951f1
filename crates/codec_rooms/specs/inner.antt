-- What private clauses alone cite.
pub mod Feeding
pub mod Purposes
pub mod Written
pub mod Output
