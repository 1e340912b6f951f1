pub mod Letters
pub mod Trees
pub mod Program
pub mod BuiltIns
