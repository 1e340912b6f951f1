pub mod Forms
pub mod Parts
pub mod IsOf
