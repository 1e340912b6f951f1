-- What inner clauses cite; a reader of the contracts needs none of it.
pub mod Codes
pub mod Pools
pub mod Sending
pub mod Reading
pub mod Delivering
pub mod Making
pub mod Insides
