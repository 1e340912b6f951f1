-- What inner clauses cite; a reader of the contracts needs none of it.
pub mod Steps
pub mod Frames
pub mod Needs
pub mod FedWholes
