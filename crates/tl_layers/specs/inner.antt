-- What inner clauses cite; a reader of the contracts needs none of it.
pub mod LayersCodes
pub mod Pairs
pub mod FieldTables
pub mod FieldBreaks
pub mod Graphs
pub mod Edges
pub mod Tables
