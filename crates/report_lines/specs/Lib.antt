pub mod Texts
pub mod Closing
pub mod Watched
