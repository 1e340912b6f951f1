-- What inner clauses cite; a reader of the contracts needs none of it.
pub mod PlanCodes
pub mod Nodes
pub mod Tables
pub mod Queues
pub mod Walks
