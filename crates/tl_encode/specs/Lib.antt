pub mod Puts
pub mod Encoding
pub mod ReadBack
pub mod Lengths
pub mod inner
