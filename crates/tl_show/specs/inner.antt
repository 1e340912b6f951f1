-- What private clauses alone cite.
pub mod FormViews
pub mod Forms
pub mod FormTells
pub mod Keyed
pub mod Direct
pub mod Lines
pub mod Kept
pub mod ReadFaults
pub mod Scopes
pub mod Held
