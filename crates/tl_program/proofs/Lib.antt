pub mod TreeViews
pub mod AppliedNames
