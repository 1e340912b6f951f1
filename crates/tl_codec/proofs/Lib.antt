pub mod Adding
pub mod Alike
pub mod Compared
pub mod Numbered
pub mod Told
